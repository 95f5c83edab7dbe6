pub mod MadeLive
mod TypesListed
mod Unmets
