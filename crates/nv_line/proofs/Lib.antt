pub mod Choice
pub mod Numbers
pub mod NumberLists
pub mod Words
pub mod ShapedWords
pub mod Rows
pub mod Grammar
pub mod Near
