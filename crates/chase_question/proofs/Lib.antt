mod Rows
mod Finding
