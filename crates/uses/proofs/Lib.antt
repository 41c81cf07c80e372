mod Hitting
mod Parts
mod Presenting
mod Reading
