mod Boards
mod Crews
