mod Fronts
mod Numbers
mod Parts
