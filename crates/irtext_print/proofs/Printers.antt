-- What printers append.
pub mod Appended
pub mod Locations
pub mod LocationParts
pub mod PieceTexts
pub mod OperationTexts
pub mod FitsTests
pub mod Indented
pub mod AttrTexts
pub mod RootParts
pub mod FitFaults
