mod Padded
