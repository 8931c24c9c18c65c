pub mod EscapedText
