mod OneLives
