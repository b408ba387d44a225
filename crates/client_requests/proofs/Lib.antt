mod FirstUnserved
