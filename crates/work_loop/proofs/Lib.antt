mod Crewed
