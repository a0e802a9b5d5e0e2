-- 01, "Inside LC_COLLATE": "`collating-symbol <name>` and `collating-element <name> from "<U..><U..>"`, 2 to 4 characters, stand before order_start."
use Rattle.std.specs.Prelude.{Bool, false, not, ◌&&◌, ◌||◌, List, [], ◌∷◌, map, ℕ, length, eqb}
use Rattle.rules.specs.Text.{within, every, one_of, same, is, ◌unless◌, lowest}
use Rattle.rules.specs.Names.{char_shaped, code_of, is_char_name}
use Rattle.rules.specs.Tokens.{name, quote, Token, token_at, the_name, single}
use Rattle.rules.specs.State.{before_order, after_order, Declaration, symbol, element, State, with_declared, in_phase, Outcome, gives}

-- ## What is declared

-- a symbol or an element of the name n
unfoldable pub declares : List ℕ → Declaration → Bool
declares n (symbol m) = same n m
declares n (element m cs) = same n m

-- the symbol of the name n
unfoldable pub declares_symbol : List ℕ → Declaration → Bool
declares_symbol n (symbol m) = same n m
declares_symbol n (element m cs) = false

-- an element of these characters
unfoldable pub declares_chars : List ℕ → Declaration → Bool
declares_chars cs (symbol m) = false
declares_chars cs (element m ds) = same cs ds

-- a name that is not "declared twice or shaped as a character" (5)
unfoldable pub is_new : List Declaration → List ℕ → Bool
is_new ds n = not (char_shaped n || one_of (declares n) ds)

-- ## The two lines

-- "stand before order_start"; "collating-symbol and collating-element lines may stand between" blocks (02, K1): after the order, outside every block
abbrev pub may_declare : State → Bool
may_declare s = in_phase before_order s || in_phase after_order s

-- "`collating-symbol <name>`"
unfoldable pub symbol_line : State → List Token → Outcome
symbol_line s ts =
    let n : List ℕ = the_name (token_at ts 0) in
    gives
    (lowest (3 unless (may_declare s && single name ts) ∷ 5 unless is_new s.declared n ∷ []))
    (with_declared s (symbol n ∷ s.declared))

-- "`collating-element <name> from "<U..><U..>"`"
unfoldable pub element_formed : List Token → Bool
element_formed ts =
    eqb (length ts) 3
    && eqb (token_at ts 0).kind name
    && is (token_at ts 1).text "from"
    && eqb (token_at ts 2).kind quote

-- "two elements with the same characters" (5); "a name or code that is no character where one must stand" (6); "element length (1 too)" (7)
unfoldable pub element_line : State → List Token → Outcome
element_line s ts =
    let ds : List Declaration = s.declared in
    let n : List ℕ = the_name (token_at ts 0) in
    let ns : List (List ℕ) = (token_at ts 2).names in
    let cs : List ℕ = map code_of ns in
    gives
    (lowest
    (3 unless (may_declare s && element_formed ts)
    ∷ 5 unless (is_new ds n && not (every is_char_name ns && one_of (declares_chars cs) ds))
    ∷ 6 unless every is_char_name ns
    ∷ 7 unless within 2 4 (length cs)
    ∷ []))
    (with_declared s (element n cs ∷ ds))
