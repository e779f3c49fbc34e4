pub mod StampLines
