mod Reply
