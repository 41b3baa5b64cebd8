mod Greetings
