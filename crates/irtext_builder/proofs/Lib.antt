mod Fresh
mod Names
