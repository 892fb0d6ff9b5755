mod Still
