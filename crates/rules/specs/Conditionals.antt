-- 01, "Inside LC_COLLATE": "`define T`, `undef T`, `ifdef T`, `ifndef T`, `elif T`, `else`, `endif` .. may stand anywhere."
use Rattle.std.specs.Prelude.{Bool, true, false, not, ◌&&◌, ◌||◌, List, [], ◌∷◌, ℕ, length, get_or, drop, ltb, leb, eqb, if◌then◌else◌}
use Rattle.rules.specs.Text.{within, every, one_of, same, ◌unless◌, lower, lowest}
use Rattle.rules.specs.Tokens.{word, Token, token_at, single}
use Rattle.rules.specs.State.{Chain, Toggle, Blocks, State, with_blocks, Outcome, gives}

-- ## Toggles

-- "letters, digits or underscores"
abbrev pub is_toggle_byte : ℕ → Bool
is_toggle_byte b = within 48 57 b || within 65 90 b || within 97 122 b || eqb b 95

-- the toggle's name is n
unfoldable pub is_toggle : List ℕ → Toggle → Bool
is_toggle n t = same n t.label

-- the toggle n is defined
unfoldable pub is_on : List ℕ → List Toggle → Bool
is_on n [] = false
is_on n (t ∷ ts) = if is_toggle n t then t.on else is_on n ts

-- the toggles with n set so; a new one stands last
unfoldable pub turned : List ℕ → Bool → List Toggle → List Toggle
turned n b [] = record { label = n; on = b } ∷ []
turned n b (t ∷ ts) =
    let r : List Toggle = turned n b ts in
    if is_toggle n t then record { label = n; on = b } ∷ ts else t ∷ r

-- "T: 1 to 32 letters, digits or underscores; at most 16 different": every T on a line that is read whole counts (docs/DECISIONS.md)
unfoldable pub toggle_refusal : State → List Token → ℕ
toggle_refusal s ts =
    let n : List ℕ = (token_at ts 0).text in
    let known : List Toggle = s.blocks.toggles in
    lowest
    (3 unless (single word ts && every is_toggle_byte n)
    ∷ 7 unless (leb (length n) 32 && (one_of (is_toggle n) known || ltb (length known) 16))
    ∷ [])

-- ## The seven lines

-- conditionals of these chains, inner ones and toggles
abbrev pub blocks : List Chain → ℕ → List Toggle → Blocks
blocks cs i ts = record { chains = cs; inner = i; toggles = ts }

-- a chain: a branch was used, the present one is, `else` has stood
abbrev pub chain : Bool → Bool → Bool → Chain
chain t u c = record { taken = t; used = u; closed = c }

-- define where `b`, undef where not
unfoldable pub define_line : State → Bool → List Token → Outcome
define_line s b ts =
    gives (toggle_refusal s ts) (with_blocks s (blocks s.blocks.chains 0 (turned (token_at ts 0).text b s.blocks.toggles)))

-- ifdef where `wanted`, ifndef where not; "Conditional blocks nest at most 8 deep"
unfoldable pub if_line : State → Bool → List Token → Outcome
if_line s wanted ts =
    let n : List ℕ = (token_at ts 0).text in
    let on : Bool = is_on n s.blocks.toggles in
    let holds : Bool = if wanted then on else not on in
    gives
    (lower (toggle_refusal s ts) (7 unless ltb (length s.blocks.chains) 8))
    (with_blocks s (blocks (chain holds holds false ∷ s.blocks.chains) 0 (turned n on s.blocks.toggles)))

-- where no chain is open: no branch may follow
abbrev pub no_chain : Chain
no_chain = chain true false true

-- the chain that the next line stands in
abbrev pub inmost : State → Chain
inmost s = get_or s.blocks.chains 0 no_chain

-- "Of one chain at most one branch is used, the first whose test holds. No branch may follow `else`."
unfoldable pub elif_line : State → List Token → Outcome
elif_line s ts =
    let n : List ℕ = (token_at ts 0).text in
    let on : Bool = is_on n s.blocks.toggles in
    let c : Chain = inmost s in
    gives
    (lower (3 unless not c.closed) (toggle_refusal s ts))
    (with_blocks s (blocks (chain (c.taken || on) (not c.taken && on) false ∷ drop 1 s.blocks.chains) 0 (turned n on s.blocks.toggles)))

-- `else`: the branch is used if none before it was
abbrev pub else_line : State → List Token → Outcome
else_line s ts =
    gives
    (3 unless (eqb (length ts) 0 && not (inmost s).closed))
    (with_blocks s (blocks (chain true (not (inmost s).taken) true ∷ drop 1 s.blocks.chains) 0 s.blocks.toggles))

-- a line `endif` with no open chain is misplaced
abbrev pub endif_line : State → List Token → Outcome
endif_line s ts =
    gives
    (3 unless (eqb (length ts) 0 && ltb 0 (length s.blocks.chains)))
    (with_blocks s (blocks (drop 1 s.blocks.chains) 0 s.blocks.toggles))

-- the lines stand in a branch that is not used
abbrev pub is_unused : State → Bool
is_unused s = ltb 0 (length s.blocks.chains) && not (inmost s).used
