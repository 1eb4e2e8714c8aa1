pub mod Numbers
pub mod Answers
pub mod Equation8
pub mod Draws
