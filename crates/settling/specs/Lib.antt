pub mod Settling
pub mod Lent
pub mod Laying
pub mod Writing
pub mod Numbers
