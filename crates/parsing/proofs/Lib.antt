pub mod LinesAt
