mod WayHops
mod Leading
