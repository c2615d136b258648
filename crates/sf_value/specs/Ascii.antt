-- The names of the bytes in the texts of fields and of the command.
use Rattle.std.specs.Prelude.{ℕ}

-- b'\t'
abbrev pub tab : ℕ
tab = 9

-- b'\n'
abbrev pub line_feed : ℕ
line_feed = 10

-- b' '
abbrev pub space : ℕ
space = 32

-- b'"'
abbrev pub quote : ℕ
quote = 34

-- b'%'
abbrev pub percent : ℕ
percent = 37

-- b'('
abbrev pub open_bracket : ℕ
open_bracket = 40

-- b')'
abbrev pub close_bracket : ℕ
close_bracket = 41

-- b'*'
abbrev pub asterisk : ℕ
asterisk = 42

-- b'+'
abbrev pub plus : ℕ
plus = 43

-- b','
abbrev pub comma : ℕ
comma = 44

-- b'-'
abbrev pub minus : ℕ
minus = 45

-- b'.'
abbrev pub point : ℕ
point = 46

-- b'/'
abbrev pub slash : ℕ
slash = 47

-- b'0'
abbrev pub digit_zero : ℕ
digit_zero = 48

-- b'1'
abbrev pub digit_one : ℕ
digit_one = 49

-- b'9'
abbrev pub digit_nine : ℕ
digit_nine = 57

-- b':'
abbrev pub colon : ℕ
colon = 58

-- b';'
abbrev pub semicolon : ℕ
semicolon = 59

-- b'='
abbrev pub equals : ℕ
equals = 61

-- b'?'
abbrev pub question_mark : ℕ
question_mark = 63

-- b'@'
abbrev pub at_sign : ℕ
at_sign = 64

-- b'A'
abbrev pub upper_a : ℕ
upper_a = 65

-- b'Z'
abbrev pub upper_z : ℕ
upper_z = 90

-- b'\\'
abbrev pub backslash : ℕ
backslash = 92

-- b'`'
abbrev pub backquote : ℕ
backquote = 96

-- b'a'
abbrev pub lower_a : ℕ
lower_a = 97

-- b'f'
abbrev pub lower_f : ℕ
lower_f = 102

-- b'z'
abbrev pub lower_z : ℕ
lower_z = 122

-- b'~'
abbrev pub tilde : ℕ
tilde = 126

-- b'\x7f'
abbrev pub del : ℕ
del = 127
