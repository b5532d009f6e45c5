mod Blocks
mod Repeats
mod Same
