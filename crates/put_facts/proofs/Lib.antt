mod Drained
mod Telling
mod Arms
mod BuildRows
mod BuildsTold
mod Costs
mod Lengths
