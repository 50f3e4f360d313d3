mod Differ
mod Known
