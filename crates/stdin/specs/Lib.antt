-- What a reader must believe: what a read promises, and what steps one after the other are
pub mod Stdin
pub mod Parts
pub mod Star
-- laws of them
pub mod PartsLaws
