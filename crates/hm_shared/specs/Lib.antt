pub mod History
pub mod Journal
pub mod BookState
pub mod Books
pub mod JournalText
pub mod RecordText
pub mod Written
