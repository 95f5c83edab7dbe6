-- What a printer appends, and in which state.
pub mod Shown
pub mod Printing
pub mod Appended
pub mod PrintedOperation
pub mod PieceText
pub mod FitFaults
pub mod LocationParts
