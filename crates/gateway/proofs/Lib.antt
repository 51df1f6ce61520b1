-- Printing: of what is printed while the headers file is read.
-- Serving: of what the functions that read, hand on and write leave.
-- HeadersRead: that the headers file is answered line by line.
-- Pieces: that it may come in pieces.
-- Theorems: what a reader may rely on.
pub mod Printing
pub mod Serving
pub mod HeadersRead
pub mod Pieces
pub mod Theorems
