pub mod PieceFaults
