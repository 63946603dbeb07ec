mod Printings
