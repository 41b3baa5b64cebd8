pub mod Orders
pub mod Numbers
pub mod Runs
pub mod Stores
pub mod Rising
pub mod Made
