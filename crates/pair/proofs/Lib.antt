mod TooLarge
