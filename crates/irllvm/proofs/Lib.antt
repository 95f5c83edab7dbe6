mod Registered
