mod OneMore
mod NameLists
mod Every
