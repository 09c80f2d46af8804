pub mod Padding
pub mod Laying
pub mod Keeping
pub mod Search
pub mod Changing
pub mod Undoing
pub mod Numbers
