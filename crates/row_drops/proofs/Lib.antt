mod Edited
mod Queues
mod Sessions
mod Lanes
mod Nodes
