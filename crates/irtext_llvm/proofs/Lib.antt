-- What is needed besides the laws of texts
mod OperationFormats
mod Parsed
mod Words
