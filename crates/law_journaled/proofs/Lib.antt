mod Joined
mod Earlier
mod Front
mod Left
mod Kept
mod Steps
mod Opened
