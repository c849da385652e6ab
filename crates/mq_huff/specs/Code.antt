-- The Huffman code of HPACK (RFC 7541, section 5.2 and appendix B).
use Rattle.std.specs.Prelude.{ℕ, ◌+◌, ◌-◌, ◌*◌, ◌/◌, ◌%◌, ◌^◌, ◌==◌, zero, suc, Bool, List, [], ◌∷◌, ◌++◌, length, if◌then◌else◌}

-- the lowest bits of a number, so many of them, the highest first
unfoldable pub bits_of : ℕ → ℕ → List Bool
bits_of zero n = []
bits_of (suc k) n = (n / 2 ^ k % 2 == 1) ∷ bits_of k n

-- the symbols by the length of their codes, the shortest first (appendix B); 256 is EOS
unfoldable pub rows : List (ℕ × List ℕ)
rows =
    (5, 48 ∷ 49 ∷ 50 ∷ 97 ∷ 99 ∷ 101 ∷ 105 ∷ 111 ∷ 115 ∷ 116 ∷ []) ∷ (
      6,
      32 ∷ 37 ∷ 45 ∷ 46 ∷ 47 ∷ 51 ∷ 52 ∷ 53 ∷ 54 ∷ 55 ∷ 56 ∷ 57 ∷ 61 ∷ 65 ∷ 95 ∷ 98 ∷ 100 ∷ 102 ∷ 103 ∷
          104 ∷ 108 ∷ 109 ∷ 110 ∷ 112 ∷ 114 ∷ 117 ∷ [],
    ) ∷ (
      7,
      58 ∷ 66 ∷ 67 ∷ 68 ∷ 69 ∷ 70 ∷ 71 ∷ 72 ∷ 73 ∷ 74 ∷ 75 ∷ 76 ∷ 77 ∷ 78 ∷ 79 ∷ 80 ∷ 81 ∷ 82 ∷ 83 ∷ 84 ∷
          85 ∷ 86 ∷ 87 ∷ 89 ∷ 106 ∷ 107 ∷ 113 ∷ 118 ∷ 119 ∷ 120 ∷ 121 ∷ 122 ∷ [],
    ) ∷
    (8, 38 ∷ 42 ∷ 44 ∷ 59 ∷ 88 ∷ 90 ∷ []) ∷
    (10, 33 ∷ 34 ∷ 40 ∷ 41 ∷ 63 ∷ []) ∷
    (11, 39 ∷ 43 ∷ 124 ∷ []) ∷
    (12, 35 ∷ 62 ∷ []) ∷
    (13, 0 ∷ 36 ∷ 64 ∷ 91 ∷ 93 ∷ 126 ∷ []) ∷
    (14, 94 ∷ 125 ∷ []) ∷
    (15, 60 ∷ 96 ∷ 123 ∷ []) ∷
    (19, 92 ∷ 195 ∷ 208 ∷ []) ∷
    (20, 128 ∷ 130 ∷ 131 ∷ 162 ∷ 184 ∷ 194 ∷ 224 ∷ 226 ∷ []) ∷
    (21, 153 ∷ 161 ∷ 167 ∷ 172 ∷ 176 ∷ 177 ∷ 179 ∷ 209 ∷ 216 ∷ 217 ∷ 227 ∷ 229 ∷ 230 ∷ []) ∷ (
      22,
      129 ∷ 132 ∷ 133 ∷ 134 ∷ 136 ∷ 146 ∷ 154 ∷ 156 ∷ 160 ∷ 163 ∷ 164 ∷ 169 ∷ 170 ∷ 173 ∷ 178 ∷ 181 ∷
          185 ∷ 186 ∷ 187 ∷ 189 ∷ 190 ∷ 196 ∷ 198 ∷ 228 ∷ 232 ∷ 233 ∷ [],
    ) ∷ (
      23,
      1 ∷ 135 ∷ 137 ∷ 138 ∷ 139 ∷ 140 ∷ 141 ∷ 143 ∷ 147 ∷ 149 ∷ 150 ∷ 151 ∷ 152 ∷ 155 ∷ 157 ∷ 158 ∷ 165 ∷
          166 ∷ 168 ∷ 174 ∷ 175 ∷ 180 ∷ 182 ∷ 183 ∷ 188 ∷ 191 ∷ 197 ∷ 231 ∷ 239 ∷ [],
    ) ∷
    (24, 9 ∷ 142 ∷ 144 ∷ 145 ∷ 148 ∷ 159 ∷ 171 ∷ 206 ∷ 215 ∷ 225 ∷ 236 ∷ 237 ∷ []) ∷
    (25, 199 ∷ 207 ∷ 234 ∷ 235 ∷ []) ∷
    (26, 192 ∷ 193 ∷ 200 ∷ 201 ∷ 202 ∷ 205 ∷ 210 ∷ 213 ∷ 218 ∷ 219 ∷ 238 ∷ 240 ∷ 242 ∷ 243 ∷ 255 ∷ []) ∷ (
      27,
      203 ∷ 204 ∷ 211 ∷ 212 ∷ 214 ∷ 221 ∷ 222 ∷ 223 ∷ 241 ∷ 244 ∷ 245 ∷ 246 ∷ 247 ∷ 248 ∷ 250 ∷ 251 ∷
          252 ∷ 253 ∷ 254 ∷ [],
    ) ∷ (
      28,
      2 ∷ 3 ∷ 4 ∷ 5 ∷ 6 ∷ 7 ∷ 8 ∷ 11 ∷ 12 ∷ 14 ∷ 15 ∷ 16 ∷ 17 ∷ 18 ∷ 19 ∷ 20 ∷ 21 ∷ 23 ∷ 24 ∷ 25 ∷ 26 ∷
          27 ∷ 28 ∷ 29 ∷ 30 ∷ 31 ∷ 127 ∷ 220 ∷ 249 ∷ [],
    ) ∷
    (30, 10 ∷ 13 ∷ 22 ∷ 256 ∷ []) ∷
    []

-- a code: the symbol, the number of its bits, and the bits as a number
pub record Code : Type 0 where
  pub symbol : ℕ
  pub size : ℕ
  pub number : ℕ

-- the codes of one length, each the one before plus one
abbrev pub codes_of_size : ℕ → ℕ → List ℕ → List Code
codes_of_size size n [] = []
codes_of_size size n (s ∷ ss) = record { symbol = s; size = size; number = n } ∷ codes_of_size size (n + 1) ss

-- The first code of a length is the one that comes next at the length before, shifted left.
abbrev pub codes_from : ℕ → ℕ → List (ℕ × List ℕ) → List Code
codes_from size n [] = []
codes_from size n (r ∷ rs) =
    codes_of_size r.0 (n * 2 ^ (r.0 - size)) r.1 ++ codes_from r.0 (n * 2 ^ (r.0 - size) + length r.1) rs

-- all the codes; the first is all zeros
unfoldable pub codes : List Code
codes = codes_from 0 0 rows

-- the bits of a symbol's code among these
abbrev pub bits_among : List Code → ℕ → List Bool
bits_among [] s = []
bits_among (c ∷ cs) s = if c.symbol == s then bits_of c.size c.number else bits_among cs s

-- the code of a symbol, as bits
unfoldable pub code_of : ℕ → List Bool
code_of s = bits_among codes s
