pub mod Beginning
pub mod Contents
pub mod Refused
