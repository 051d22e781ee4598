pub mod WordsState
