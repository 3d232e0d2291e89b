mod OwnAdded
