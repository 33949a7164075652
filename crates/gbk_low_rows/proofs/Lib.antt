mod Scalars
