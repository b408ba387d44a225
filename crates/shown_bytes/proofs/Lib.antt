mod ShownBytes
