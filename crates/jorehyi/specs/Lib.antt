-- What a reader must believe: a result as words, and what the two exported functions promise
pub mod Words
pub mod Export
-- laws of them
pub mod WordsLaws
pub mod ExportLaws
