mod Noted
mod Telling
