-- What the parts of a directory ask and give. No public contract cites this file.
use Rattle.std.specs.Prelude.{◌≡◌, Bool, true, ◌&&◌, List, ℕ, ◌≤◌, length, take}
use Rattle.rules.specs.Text.{every}
use Rattle.rules.specs.Table.{accepted, meaning_in}
use Rattle.rules.specs.Directory as paper
use Rattle.rules.specs.Directory.{part, parts_of, in_run, parts_fit, good_part, weights_of, plain_first, good_headings}
use Rattle.order_directory.specs.declared.Part.{Part}

-- a part as the paper has it
abbrev pub part_as : Part → paper.Part
part_as p = part p.start p.size

-- An accepted table whose first level is plain forward, a part of a run that is not refused, and room for the places of its string's elements.
pub record PartReady (t run : List ℕ) (p : paper.Part) (places : List ℕ) : Type 0 where
  pub checked : accepted t ≡ true
  pub plain : plain_first (meaning_in t).rules ≡ true
  pub inside : in_run run p ≡ true
  pub good : good_part run p ≡ true
  pub room : 4096 ≤ length places

-- The same of all parts that numbers give.
pub record Ready (t run parts places : List ℕ) : Type 0 where
  pub checked : accepted t ≡ true
  pub plain : plain_first (meaning_in t).rules ≡ true
  pub inside : every (in_run run) (parts_of parts) ≡ true
  pub good : every (good_part run) (parts_of parts) ≡ true
  pub room : 4096 ≤ length places

-- The first weights of headings that are not refused.
pub record Rising (weights : List ℕ) : Type 0 where
  pub rise : good_headings weights ≡ true
  pub few : length weights ≤ 1000

-- Whether the headings are not refused; then their weights stand in front.
pub record Weighed (t run headings weights : List ℕ) (r : Bool) : Type 0 where
  pub is : r ≡ good_headings (weights_of t run headings)
  pub kept : r ≡ true → take (length (parts_of headings)) weights ≡ weights_of t run headings

-- Headings and topics that are not refused by 17.
pub record Fitting (run headings topics : List ℕ) : Type 0 where
  pub fit : (parts_fit run (parts_of headings) && parts_fit run (parts_of topics)) ≡ true

-- A table, headings and topics that are not refused by 11, 16, 17 or 12.
pub record Page (t run headings topics : List ℕ) : Type 0 where
  pub checked : accepted t ≡ true
  pub plain : plain_first (meaning_in t).rules ≡ true
  pub fit : (parts_fit run (parts_of headings) && parts_fit run (parts_of topics)) ≡ true
  pub good : (every (good_part run) (parts_of headings) && every (good_part run) (parts_of topics)) ≡ true

-- A page whose headings rise, with their weights in front.
pub record RisingPage (t run headings topics places weights : List ℕ) : Type 0 where
  pub page : Page t run headings topics
  pub kept : take (length (parts_of headings)) weights ≡ weights_of t run headings
  pub rise : good_headings (weights_of t run headings) ≡ true
  pub places-room : 4096 ≤ length places
  pub weights-room : 1000 ≤ length weights
