-- Laws of lists of fixes: the counts of their answers, their lengths, and their content.
pub mod Counts
pub mod Lengths
pub mod Answers
pub mod Content
