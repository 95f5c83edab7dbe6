mod AllNew
mod Kept
