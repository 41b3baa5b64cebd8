mod Safe
mod Running
mod Told
mod Copies
mod Stopped
