pub mod Kinds
pub mod Laying
