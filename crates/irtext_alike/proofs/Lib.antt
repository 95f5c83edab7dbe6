mod Directives
mod Walk
mod Tables
