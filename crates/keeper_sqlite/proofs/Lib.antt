mod Inside
mod Open
mod Props
mod Told
mod Unread
