pub mod Legal
pub mod Studied
pub mod Rounds
pub mod WorkedRounds
pub mod ShownCuts
