mod Boards
mod RoundBoard
