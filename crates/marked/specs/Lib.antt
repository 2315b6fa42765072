-- Document 01, "Marked", and its session printed whole: the table, and the theorem that settles it.
pub mod Cases
pub mod CasesLaws
