-- Counters, gauges and histograms in the text form that Prometheus reads.
use Rattle.std.specs.Prelude.{ℕ, ◌+◌, ◌-◌, ◌/◌, ◌%◌, ◌^◌, min, List, [], ◌∷◌, ◌++◌, codes}
use Rattle.std.specs.List.{flat_map}
use Rattle.std.specs.Fmt.{decimal}
use Rattle.metrics.specs.declared.metric.MetricKind.{MetricKind}
use Rattle.metrics.specs.declared.metric.MetricKind.TheVariants as kind
use Rattle.metrics.specs.declared.metric.Metric.{Metric}
use Rattle.metrics.specs.declared.family.Labelled.{Labelled}
use Rattle.metrics.specs.declared.family.Family.{Family}
use Rattle.metrics.specs.declared.histogram.HistogramClass.{HistogramClass}
use Rattle.metrics.specs.declared.histogram.Histogram.{Histogram}

abbrev pub kind_text : MetricKind → List ℕ
kind_text kind.Counter = codes "counter"
kind_text kind.Gauge = codes "gauge"
kind_text kind.Histogram = codes "histogram"

-- of which kind a name is
abbrev pub type_line : List ℕ → MetricKind → List ℕ
type_line name kind = codes "# TYPE " ++ (name ++ (32 ∷ (kind_text kind ++ 10 ∷ [])))

-- what is counted
abbrev pub help_line : List ℕ → List ℕ → List ℕ
help_line name help = codes "# HELP " ++ (name ++ (32 ∷ (help ++ 10 ∷ [])))

-- what stands before the values of a name
abbrev pub head_text : List ℕ → List ℕ → MetricKind → List ℕ
head_text name help kind = help_line name help ++ type_line name kind

-- what ends a line
abbrev pub number_end : ℕ → List ℕ
number_end n = 32 ∷ (decimal n ++ 10 ∷ [])

abbrev pub value_line : List ℕ → List ℕ → ℕ → List ℕ
value_line name suffix value = name ++ (suffix ++ number_end value)

abbrev pub metric_text : Metric → List ℕ
metric_text m = head_text m.name.now m.help.now m.kind ++ value_line m.name.now [] m.value

abbrev pub metrics_text : List Metric → List ℕ
metrics_text metrics = flat_map metric_text metrics

-- ---- values that a label tells apart

abbrev pub label_text : List ℕ → List ℕ → List ℕ
label_text label says = 123 ∷ (label ++ (codes "=\"" ++ (says ++ codes "\"}")))

abbrev pub labelled_line : List ℕ → List ℕ → Labelled → List ℕ
labelled_line name label v = name ++ (label_text label v.says.now ++ number_end v.value)

abbrev pub labelled_text : List ℕ → List ℕ → List Labelled → List ℕ
labelled_text name label values = flat_map (labelled_line name label) values

abbrev pub family_text : Family → List ℕ
family_text f = head_text f.name.now f.help.now f.kind ++ labelled_text f.name.now f.label.now f.values.now

-- ---- histograms, of how long something took

-- numbers that 64 bits do not hold are the greatest that they do
abbrev pub plus : ℕ → ℕ → ℕ
plus a b = min (a + b) (2 ^ 64 - 1)

-- the last decimal digit of a number
abbrev pub last_digit : ℕ → ℕ
last_digit n = 48 + n % 10

-- so many microseconds, in seconds: six digits stand behind the point
abbrev pub seconds_text : ℕ → List ℕ
seconds_text micros =
    decimal (micros / 1000000)
    ++ (46 ∷ last_digit (micros / 100000) ∷ last_digit (micros / 10000) ∷ last_digit (micros / 1000)
    ∷ last_digit (micros / 100) ∷ last_digit (micros / 10) ∷ last_digit micros ∷ [])

abbrev pub class_name : List ℕ → ℕ → List ℕ
class_name name bound = name ++ (codes "_bucket{le=\"" ++ (seconds_text bound ++ codes "\"}"))

abbrev pub bucket_line : List ℕ → ℕ → ℕ → List ℕ
bucket_line name bound total = class_name name bound ++ number_end total

-- each class with those before it
abbrev pub buckets_text : List ℕ → ℕ → List HistogramClass → List ℕ
buckets_text name before [] = []
buckets_text name before (b ∷ bs) = bucket_line name b.bound (plus before b.count) ++ buckets_text name (plus before b.count) bs

abbrev pub total_of : ℕ → List HistogramClass → ℕ
total_of before [] = before
total_of before (b ∷ bs) = total_of (plus before b.count) bs

abbrev pub sum_line : List ℕ → ℕ → List ℕ
sum_line name sum = name ++ (codes "_sum " ++ (seconds_text sum ++ 10 ∷ []))

abbrev pub ends_text : List ℕ → ℕ → ℕ → List ℕ
ends_text name all sum =
    value_line name (codes "_bucket{le=\"+Inf\"}") all ++ (sum_line name sum ++ value_line name (codes "_count") all)

abbrev pub histogram_text : Histogram → List ℕ
histogram_text h =
    head_text h.name.now h.help.now kind.Histogram
    ++ (buckets_text h.name.now 0 h.buckets.now ++ ends_text h.name.now (plus (total_of 0 h.buckets.now) h.beyond) h.sum)
